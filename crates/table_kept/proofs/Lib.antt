pub mod KeptAlong
pub mod AlongChains
