pub mod OneSetMore
