pub mod AllImports
