pub mod Fields
pub mod Gathering
pub mod Numbers
pub mod Putting
pub mod TextLaws
pub mod Texts
