mod FaultlessTables
mod ToldByTables
