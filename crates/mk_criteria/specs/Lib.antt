pub mod ThirdMoves
