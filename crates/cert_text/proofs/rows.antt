-- One line that is taken, or refused by a row of the table of faults.
pub mod Told
pub mod LineRows
pub mod EpsRows
pub mod EntryRows
pub mod PathRows
