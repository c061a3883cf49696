pub mod PesStarts
pub mod TakenPackets
