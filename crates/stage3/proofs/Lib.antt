mod Owed
mod Singles
