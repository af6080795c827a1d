pub mod Prefixes
pub mod SameKind
pub mod ScanLength
pub mod Scanned
pub mod Strings
