mod ChangeSteps
