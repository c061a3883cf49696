pub mod PcrPacket
