mod Counting
mod Drawing
mod Examples
mod HeadBytes
mod Placing
mod Spelled
mod Writing
