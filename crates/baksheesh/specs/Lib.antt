pub mod Baksheesh
