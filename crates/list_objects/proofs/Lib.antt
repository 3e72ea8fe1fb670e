pub mod LargestKey
pub mod TopsByIndex
pub mod KeysPut
pub mod KeysByTops
pub mod GatheredIs
pub mod SetsByChain
pub mod PutAtEnd
