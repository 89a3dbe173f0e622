mod FirstPieces
mod DigitValues
