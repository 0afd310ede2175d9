pub mod Lists
pub mod Listings
pub mod ListingLaws
pub mod ListLaws
pub mod InOrder
