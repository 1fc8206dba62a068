pub mod LeafTexts
