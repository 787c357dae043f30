mod Apps
mod Parsed
mod Races
mod Refused
