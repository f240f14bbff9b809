mod Arrivals
mod Flushing
