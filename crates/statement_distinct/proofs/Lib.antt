pub mod Borne
