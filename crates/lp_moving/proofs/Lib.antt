mod Moved
mod Placed
