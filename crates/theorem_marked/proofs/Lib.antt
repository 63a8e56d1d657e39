pub mod MarkedHold
