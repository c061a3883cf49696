pub mod PesPackets
