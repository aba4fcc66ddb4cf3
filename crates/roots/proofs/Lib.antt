-- Laws of loops over the lanes, which lanes' proofs cite too; of floats: which are no NaN, how near an operation is, and
-- which are exact; and of the estimate of a root: the first one, the steps from it, and its last digits.
pub mod LaneLoops
mod NoNan
mod Literals
mod Rounding
mod Floats
mod Sizes
mod FirstSquares
mod FirstEstimate
mod Near
mod Heron
mod LastDigits
mod Estimated
mod StepDown
