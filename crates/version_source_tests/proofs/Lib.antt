mod Growth
mod Pieces
mod SoFar
