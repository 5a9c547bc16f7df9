-- The steps of the delete fixup.
pub mod Lacking
pub mod RedSibling
pub mod BlackSibling
pub mod Children
