-- One server that has all, and the step of each server as its step.
pub mod LeaseChanges
pub mod ServerSame
pub mod ServerEvents
pub mod ClientSteps
pub mod ClientEvents
pub mod FirstWorld
pub mod Sim
pub mod SimAsk
pub mod SimPairs
pub mod SimShip
pub mod SimTurn
pub mod SameStep
pub mod StepPlaces
