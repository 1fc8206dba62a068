pub mod StageSteps
pub mod PeerSteps
pub mod MovingSteps
pub mod OpeningSteps
pub mod PointSteps
pub mod FilledSteps
pub mod LawSteps
