mod Places
mod Made
mod Hold
mod Share
