pub mod MeteredLemmas
