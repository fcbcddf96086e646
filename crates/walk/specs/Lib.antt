-- What the program's own contracts say.
pub mod Input
pub mod Output
