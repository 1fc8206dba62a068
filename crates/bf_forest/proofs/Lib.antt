pub mod StartSteps
pub mod OpeningSteps
pub mod PeerSteps
pub mod StripSteps
pub mod GroupSteps
pub mod PointSteps
pub mod StepSteps
