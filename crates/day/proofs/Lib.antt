mod PartsJoin
mod EveryCommandAnswered
mod LooksTellTally
mod RunsOn
