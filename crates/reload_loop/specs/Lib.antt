pub mod Disk
pub mod Looks
pub mod Program
pub mod ServesOn
pub mod Snapshots
pub mod Telling
