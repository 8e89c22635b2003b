pub mod Firsts
