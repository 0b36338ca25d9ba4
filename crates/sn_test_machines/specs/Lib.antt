pub mod Twist
