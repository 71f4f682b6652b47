mod Accepting
mod Known
mod Places
mod Tests
mod Undercut
