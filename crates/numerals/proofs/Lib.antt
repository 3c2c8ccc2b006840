mod Places
mod Forms
