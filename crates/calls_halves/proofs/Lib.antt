pub mod HalvesLaws
