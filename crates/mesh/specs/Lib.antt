pub mod Floats
pub mod Faces
pub mod Mesh
