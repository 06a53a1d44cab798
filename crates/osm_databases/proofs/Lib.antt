mod Told
mod Looked
