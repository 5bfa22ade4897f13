mod TotalCrossing
mod WorkerCrossing
