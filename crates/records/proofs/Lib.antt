mod FilterKeeps
