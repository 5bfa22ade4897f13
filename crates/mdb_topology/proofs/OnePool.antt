-- An act of one pool: where it is found, asked, planned and done, and what it leaves.
pub mod JobsAreThere
