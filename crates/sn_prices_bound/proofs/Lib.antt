mod Walks
mod Knowing
mod Sums
mod Having
