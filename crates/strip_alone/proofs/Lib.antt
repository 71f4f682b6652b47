pub mod OneWorker
