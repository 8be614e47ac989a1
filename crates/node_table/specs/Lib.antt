-- What the functions of `node_table` cite.
pub mod Nodes
