-- Facts about the rows of worked tallies.
pub mod WorkedRows
