pub mod RunLoop
