-- The definitions at small records, computed.
mod Records
mod Lists
