mod Places
mod Payloads
