pub mod HexLemmas
pub mod LineLemmas
pub mod PiecesLemmas
pub mod SettingsLemmas
