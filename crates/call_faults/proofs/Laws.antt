pub mod OfferLines
