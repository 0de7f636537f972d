pub mod WrittenBack
