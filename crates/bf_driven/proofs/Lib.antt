mod HeirLemmas
mod HeldLemmas
mod LeafLemmas
mod ParcelLemmas
