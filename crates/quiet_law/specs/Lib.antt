pub mod QuietLaw
