pub mod RecView
