pub mod CaptureEvents
