mod Places
mod Signs
