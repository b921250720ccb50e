-- What a parsed instruction is.
mod ParseLaws
